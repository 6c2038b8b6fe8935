pub mod RingFacts
pub mod SearchFacts
pub mod CallFacts
