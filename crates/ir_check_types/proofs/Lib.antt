pub mod FirstOfSeveral
pub mod ListParts
pub mod TypeLists
pub mod PassedRules
