-- The line of a refusal.
use Rattle.text_pair.proofs.Parts.{device_refused}
use Rattle.text_pair.proofs.put_device.Goals as goal

pub returns-in-Err : goal.returns-in-Err
returns-in-Err c P = rw (c.in-Err.is, device_refused P) c.put_refusal_line.ensures
