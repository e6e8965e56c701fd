-- Decimal numbers, read; and what is written is read again.
pub mod Decimal
pub mod DecimalLaws
-- Decimal numbers, written.
pub mod NumberText
pub mod NumberTextLaws
