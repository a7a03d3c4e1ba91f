pub mod FirstLemmas
pub mod FrontLemmas
pub mod MemberLemmas
pub mod NumberLemmas
pub mod PlaceLemmas
pub mod SumLemmas
pub mod TotalLemmas
