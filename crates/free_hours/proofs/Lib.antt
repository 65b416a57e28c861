-- The laws of `free_hours`.
pub mod FreeLaws
