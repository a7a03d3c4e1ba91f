mod FirstKeys
mod LineLemmas
mod RereadingLemmas
mod Troubles
