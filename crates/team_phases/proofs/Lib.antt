pub mod BodyParts
pub mod StmtKinds
pub mod Dividing
