-- layout: what a sheet is, how it is written, and what bytes spell
pub mod Kept
pub mod Form
pub mod Encoding
pub mod Spelling
-- rules: as tests, as faults, and as what an accepted sheet keeps
pub mod Rules
pub mod Faults
pub mod Sound
pub mod Made
-- refusals: of bytes and of a kept sheet, in their two orders of numbers
pub mod Refusals
-- reading: what is answered, and the sheets of 01's cases
pub mod Reading
pub mod Examples

-- laws
-- steps of their proofs
