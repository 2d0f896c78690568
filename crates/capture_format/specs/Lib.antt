pub mod CallReading
pub mod ReplyReading
pub mod SessionFile
pub mod SessionView
pub mod StartFile
pub mod Inside
