-- How each form's code comes to the definition's end.
pub mod Endings
-- What a written reply leaves.
pub mod Reply
