-- The theorems about every run, in reading order.

-- the calls on one object by itself, and the lone run told by them
pub mod OneObject
pub mod Alone
-- the history scanned for one object, and how an event leaves the scan
pub mod Scan
pub mod Carried
pub mod Found
pub mod Exchanged
pub mod Unwrapped
-- the records of ends
pub mod JoinedEntries
pub mod EndRecords
pub mod RecordOrder
pub mod RecordsKept
-- what every event keeps
pub mod Invariant
pub mod Untouched
pub mod Width
pub mod Acting
pub mod ObjectStarted
pub mod ObjectCalled
pub mod ObjectEnded
pub mod EndsRead
pub mod PairsHold
pub mod AfterStart
pub mod AfterCall
pub mod AfterEnd
pub mod AfterEvent
-- what follows
pub mod LiveDeclarers
pub mod VersionsBetween
pub mod CommittedAlone
pub mod DueServed
pub mod EarliestServed
pub mod EveryRun
pub mod Example
