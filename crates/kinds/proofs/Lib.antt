pub mod Absent
pub mod Crossing
pub mod FlowLaws
pub mod Lawful
pub mod BitSets
pub mod PartsLaws
pub mod Reducing
pub mod ScenariosLaws
