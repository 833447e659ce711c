pub mod RisingLemmas
pub mod OneEdge
pub mod Alike
pub mod OneNode
pub mod OneGraph
pub mod MovedGraphs
