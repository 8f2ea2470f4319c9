pub mod NeverZero
pub mod OneAnswer
pub mod RuledOut
pub mod RuledOutRecords
pub mod WorkedSite
