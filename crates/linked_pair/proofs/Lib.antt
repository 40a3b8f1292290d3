pub mod Law
mod NamedGlobals
mod PairParts
