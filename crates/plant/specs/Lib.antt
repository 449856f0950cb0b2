pub mod Affine
pub mod AffineModel
pub mod First
pub mod Listed
pub mod ListedModel
pub mod Plant
