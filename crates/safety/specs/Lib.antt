pub mod Demand3
pub mod Judgement
pub mod Conclusion
