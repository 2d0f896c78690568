pub mod ReportFile
pub mod Inside
