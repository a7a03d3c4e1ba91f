-- The promises of the program's calls stand in Promises, Questions, Migrations, Demos and Prompt, over Causes, Endings, Fronts, Inputs,
-- Runs, Statuses, Tables and Worlds. What stands in Answered, Beside, Broken, Finishing, Loads, Planned, Progress, RunLaws, Shows, Underway and
-- Writing is for the parts of the engine alone. Words has the names that all of them take from elsewhere.
pub mod Causes
pub mod Demos
pub mod Endings
pub mod Fronts
pub mod Inputs
pub mod Migrations
pub mod Promises
pub mod Prompt
pub mod Questions
pub mod Runs
pub mod Statuses
pub mod Tables
pub mod Worlds
pub mod Answered
pub mod Beside
pub mod Loads
pub mod Progress
pub mod RunLaws
pub mod Broken
pub mod Finishing
pub mod Planned
pub mod Shows
pub mod Underway
pub mod Writing
pub mod Words
