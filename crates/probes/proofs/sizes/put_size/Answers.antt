use Rattle.std.proofs.Common.{◌≡◌, ℕ, List, ◌+◌, ◌≤◌, ◌≢◌, ◌++◌, refl, length, get_or, take, sym, ap, ◌∙◌, arith, length-set}
use lib.Count.{ones-le}
use Rattle.base.specs.Front.{at_front}
use Rattle.events.specs.Size.{size}
use Rattle.events.proofs.SizeLaws.{size_ones}
use Rattle.probes.proofs.sizes.Sized.{part_none, part_no, part_room, part_count, part_all, put_more, put_none}
use Rattle.probes.proofs.sizes.put_size.Goals as goal
use Rattle.probes.proofs.sizes.put_size.Goals.{then-x-size, else-x-size}

-- the test counts the events
sized : (c : goal.Then-x-size) → size (get_or c.args.found.now c.loop-x.x-index 0) ≡ c.args.size
sized c = sym (size_ones _ (omega (arith, c.type_inv.found c.loop-x.x-index))) ∙ c.if-x-size.true

-- so there is room for one set more
room : (c : goal.Then-x-size) → c.loop-x.next + 1 ≤ length c.loop-x.out
room c = omega (arith, part_room c.args.found.now c.args.size c.loop-x.x-index (omega arith) (sized c))

pub loop-x-init : goal.loop-x-init
loop-x-init c = (part_none c.args.found.now c.args.size c.args.at, put_none c.args.out.now c.args.found.now c.args.size c.args.at (omega arith), refl)

pub overflow_cast-x : goal.overflow_cast-x
overflow_cast-x c = omega (arith, ones-le 16 (get_or c.args.found.now c.loop-x.x-index 0) (omega (arith, c.type_inv.found c.loop-x.x-index)))

pub offset_bounds-out-next : goal.offset_bounds-out-next
offset_bounds-out-next c = omega (arith, room c)

pub bounds-out-next : goal.bounds-out-next
bounds-out-next c = omega (arith, room c)

pub overflow_add-next : goal.overflow_add-next
overflow_add-next c = omega (arith, room c)

pub loop-x-preserved : goal.loop-x-preserved
loop-x-preserved c =
    let f = c.args.found.now in
    let x = get_or f c.loop-x.x-index 0 in
    let s = size_ones x (omega (arith, c.type_inv.found c.loop-x.x-index)) in
    elim c.if-x-size.branch [
      | then-x-size w ↦
          let e : size x ≡ c.args.size = sym s ∙ w.if-x-size.true in (
            w.next-is ∙ omega (arith, c.loop-x.invariant.0, part_count f c.args.size c.loop-x.x-index (omega arith) e),
            w.out-is ∙ put_more f c.args.size c.loop-x.x-index (omega arith) e c.args.out.now c.loop-x.out c.args.at c.loop-x.next (omega arith) c.loop-x.invariant.0 c.loop-x.invariant.1,
            ap length w.out-is ∙ length-set c.loop-x.out c.loop-x.next x ∙ c.loop-x.invariant.2,
          )
      | else-x-size w ↦
          let n : size x ≢ c.args.size = λ q. w.if-x-size.false (s ∙ q) in
          let q = part_no f c.args.size c.loop-x.x-index (omega arith) n in (
            w.next-is ∙ omega (arith, c.loop-x.invariant.0, ap length q),
            w.out-is ∙ c.loop-x.invariant.1 ∙ ap (λ (r : List ℕ). at_front c.args.out.now (take c.args.at c.args.out.now ++ r)) (sym q),
            ap length w.out-is ∙ c.loop-x.invariant.2,
          )
    ]

pub returns : goal.returns
returns c =
    let q = part_all c.args.found.now c.args.size c.loop-x.x-index (omega arith) in
    (c.loop-x.invariant.1 ∙ ap (λ (r : List ℕ). at_front c.args.out.now (take c.args.at c.args.out.now ++ r)) q, c.loop-x.invariant.0 ∙ ap (λ (r : List ℕ). c.args.at + length r) q)
