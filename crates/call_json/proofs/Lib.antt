pub mod CallsRead
pub mod Depths
pub mod Keys
pub mod RepliesRead
pub mod SpelledTexts
pub mod ValuesRead
pub mod Written
