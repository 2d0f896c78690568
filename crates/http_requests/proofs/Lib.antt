pub mod Digits
pub mod HeadEnds
pub mod Routing
pub mod Spanned
pub mod Beginning
pub mod OneCut
