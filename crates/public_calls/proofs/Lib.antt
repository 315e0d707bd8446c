mod MonitorLemmas
mod SpanLemmas
mod TwoQueries
mod TypedQueryLemmas
