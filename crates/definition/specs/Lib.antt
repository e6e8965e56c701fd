-- What every call does. A reader must believe the pages of the first part, in this order; those of the second part have the words of
-- its theorems, which stand in proofs/, most under the same names: that they say what document 01 says, and what the crates above rest on.

-- ---- to believe

-- the tests of a slot's state, and what a state carries
pub mod States
-- a slot with one thing changed
pub mod Slots
-- the table: sizes, slots and what they are searched for, CIDs, identifiers, SPSMs, refusal 1
pub mod Table
-- what is done to memory, as data: which octets are put where
pub mod Mem
-- what a call comes to, and the refusals that come first in every call
pub mod Outcome
-- connections that the peer asks for: next pending, reject all, accept, reject, drop; the defaults
pub mod Pending
-- connections that we ask for: create, the opened query, give-up
pub mod Opening
-- holds, disconnects, link down, next disconnect
pub mod Closing
-- one signal PDU: header check, the eight signals, all other codes
pub mod Signals
-- frame in, send, take
pub mod Frames
-- jobs handed over in portions: start, portion, cancel
pub mod Portions
-- making and registering, the attention set, the search over a run of slots, the queries, the parameter senders
pub mod Asking
-- what stands when a call has ended: what a contract says; and how proofs read it
pub mod Ending
-- all calls, what is job and what is public in each, and whose it is
pub mod Calls
-- calls one after the other, on the same table, room and memory
pub mod Run
-- the paper's number of an answer
pub mod Numbers
-- ---- laws

-- what is job and what is public is what document 01 says
pub mod Public
-- what a test of the definition tells once it has passed
pub mod Tells
-- what is said of a call slot by slot, and how it is shown for each form of an outcome
pub mod Forms
-- job octets go into slots of the link that carries them, alone, and a slot that changes hands was free or is wiped
pub mod Safe
-- a call that names a link touches that link's slots and free ones alone
pub mod Apart
-- what each call hands out to the caller's memory: a take its slot's job, a send its SDU, else octets that it worked out
pub mod Handed
-- the calls that are not lent the room move and read no octet of it
pub mod Roomless
-- runs worked out, for any job octets
pub mod Example
-- what a worked line is: a table of two slots, a call, what it answers and leaves
pub mod Line
-- worked lines in which every test of every call decides
pub mod Worked
-- the same of jobs handed over in portions
pub mod PortionLines
-- and of what is counted
pub mod TallyLines
