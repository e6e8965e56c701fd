-- What a text tells, octet by octet, and that `text_lines` tells it whatever its pieces.
pub mod Reading
pub mod NextLaws
pub mod Notes
