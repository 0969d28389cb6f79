pub mod ExceptionFiles
pub mod IndexFiles
