pub mod Letters
pub mod Walks
pub mod RecordParts
