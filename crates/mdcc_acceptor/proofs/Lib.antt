pub mod NewMarks
