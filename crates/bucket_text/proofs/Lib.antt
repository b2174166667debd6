mod Utf8
mod Walks
