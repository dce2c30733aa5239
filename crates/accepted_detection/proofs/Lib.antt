pub mod Always
pub mod NeverStuck
pub mod SmallProgramChecked
pub mod UntilFull
