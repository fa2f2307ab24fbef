-- What the contracts cite, in reading order: the bytes of a record, what `flush_to_file` does, what the types say of a list. `Inner` is for the
-- inner functions alone.
pub mod Bytes
pub mod Flush
pub mod Typed
pub mod Inner
