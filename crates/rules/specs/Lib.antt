pub mod Faults
pub mod Lawful
pub mod RuleFile
pub mod Told
