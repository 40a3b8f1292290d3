mod ForeignHistories
mod PairHistories
mod PairRuns
