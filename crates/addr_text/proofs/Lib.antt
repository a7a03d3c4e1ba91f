mod Bytes
mod Grammar
mod Written
