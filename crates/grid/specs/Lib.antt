pub mod Pick
pub mod Sum
pub mod Grid
pub mod Every
pub mod First
pub mod Fill
pub mod Front
