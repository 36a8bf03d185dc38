pub mod Faults
pub mod Items
pub mod Faulty
pub mod RuleLines
pub mod Files
pub mod Steps
