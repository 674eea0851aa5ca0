-- What the code of the table does, word by word, and when the words of a kind of group are those of its names.
pub mod Column
pub mod Layout
pub mod Merge
pub mod KindValid
