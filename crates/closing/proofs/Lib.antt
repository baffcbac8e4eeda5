pub mod AskMarks
pub mod Lacking
pub mod PassedBy
pub mod OneCell
pub mod StartCells
