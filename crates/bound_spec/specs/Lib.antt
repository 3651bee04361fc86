-- the two sheets, the call that writes them, and what is claimed of them
pub mod Sheets
pub mod Calls
pub mod Bound
-- what 02 says of the sheets, with no row in it
pub mod Meaning
-- laws
pub mod ByteLaws
