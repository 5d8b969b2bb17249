pub mod GradeLaws
pub mod GradeKind
pub mod Numbers
pub mod Played
pub mod Written
pub mod Sequences
