pub mod OldSearch
pub mod OldCalls
pub mod RootSearch
