-- a segment that is served
mod SegmentLemmas
