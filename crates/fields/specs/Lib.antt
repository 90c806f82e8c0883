-- Fields of one tag, one after the other, and the end field: what card books and definitions books have in common.
pub mod Form
