pub mod IndexedObject
