mod CoreParts
mod Walks
