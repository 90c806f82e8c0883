-- The laws of the depths of rows.
pub mod ShallowRows
pub mod UnfoldedDepths
