pub mod ConclusionLaws
