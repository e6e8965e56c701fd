-- `channel_answer::tells` meets its contract: in each arm what the match told is the definition's case.
use Rattle.channel_answer.proofs.tells.Goals as goal

pub returns-in-Done : goal.returns-in-Done
returns-in-Done c = rw c.in-Done.is c.plain.ensures

pub returns-in-Refused : goal.returns-in-Refused
returns-in-Refused c = rw c.in-Refused.is c.refused.ensures

pub returns-in-At : goal.returns-in-At
returns-in-At c = rw c.in-At.is c.plain-in-At.ensures

pub returns-in-Link : goal.returns-in-Link
returns-in-Link c = rw c.in-Link.is c.plain-in-Link.ensures

pub returns-in-Opened : goal.returns-in-Opened
returns-in-Opened c = rw c.in-Opened.is c.plain-in-Opened.ensures

pub returns-in-Due : goal.returns-in-Due
returns-in-Due c = rw c.in-Due.is c.plain-in-Due.ensures

pub returns-in-Frames : goal.returns-in-Frames
returns-in-Frames c = rw (c.in-Frames.is, ← c.shown.ensures) c.plain-in-Frames.ensures

pub returns-in-Job : goal.returns-in-Job
returns-in-Job c = rw c.in-Job.is c.plain-in-Job.ensures

pub returns-in-Attention : goal.returns-in-Attention
returns-in-Attention c = rw c.in-Attention.is c.plain-in-Attention.ensures

pub returns-in-Number : goal.returns-in-Number
returns-in-Number c = rw c.in-Number.is c.number.ensures

pub returns-in-Event : goal.returns-in-Event
returns-in-Event c = rw c.in-Event.is c.plain-in-Event.ensures

pub returns-in-Portion : goal.returns-in-Portion
returns-in-Portion c = rw (c.in-Portion.is, ← c.shown-in-Portion.ensures, ← c.bit.ensures) c.plain-in-Portion.ensures
