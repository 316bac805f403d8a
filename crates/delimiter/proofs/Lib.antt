pub mod SplitLaws
pub mod CleanLaws
pub mod CallLaws
pub mod Languages
