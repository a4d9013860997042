-- Which numbers of an entry are references, indices and siblings.
pub mod NamedPieces
pub mod EntryNames
pub mod ListedNames
pub mod SameReferences
pub mod EntryRoles
pub mod SameRoles
pub mod Yields
