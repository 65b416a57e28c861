-- The laws of places: what is appended changes no refusal but that of ending early, so that the number at the first fault decides it.
pub mod Appended
pub mod FirstFault
pub mod EndsEarly
pub mod Searching
pub mod ReadingLaws
pub mod BytesFault
pub mod Examples
