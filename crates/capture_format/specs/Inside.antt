-- Words of private clauses and of what holds of fields. They need not be believed.
pub mod Answers
pub mod Fields
pub mod NameReading
pub mod SessionReading
pub mod StartReading
pub mod StartStage
