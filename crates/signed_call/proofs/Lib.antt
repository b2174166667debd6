mod Escapes
mod Lists
mod Order
