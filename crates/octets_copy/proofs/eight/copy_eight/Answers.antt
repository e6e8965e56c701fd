-- `octets_copy::eight::copy_eight` meets its contract: eight stores are a run of eight.
use native.Mathlib.Omega.{arith}
use Rattle.octets_copy.specs.Eight.{run_below, eight_stores}
use Rattle.octets_copy.proofs.eight.copy_eight.Goals as goal

pub bounds-dst-at-2 : goal.bounds-dst-at-2
bounds-dst-at-2 c = run_below 0 c.args.dst.now c.args.src.now c.args.at c.args.from 1 c.requires.0 (omega arith)

pub bounds-dst-at-3 : goal.bounds-dst-at-3
bounds-dst-at-3 c = run_below 0 c.args.dst.now c.args.src.now c.args.at c.args.from 2 c.requires.0 (omega arith)

pub bounds-dst-at-4 : goal.bounds-dst-at-4
bounds-dst-at-4 c = run_below 0 c.args.dst.now c.args.src.now c.args.at c.args.from 3 c.requires.0 (omega arith)

pub bounds-dst-at-5 : goal.bounds-dst-at-5
bounds-dst-at-5 c = run_below 0 c.args.dst.now c.args.src.now c.args.at c.args.from 4 c.requires.0 (omega arith)

pub bounds-dst-at-6 : goal.bounds-dst-at-6
bounds-dst-at-6 c = run_below 0 c.args.dst.now c.args.src.now c.args.at c.args.from 5 c.requires.0 (omega arith)

pub bounds-dst-at-7 : goal.bounds-dst-at-7
bounds-dst-at-7 c = run_below 0 c.args.dst.now c.args.src.now c.args.at c.args.from 6 c.requires.0 (omega arith)

pub bounds-dst-at-8 : goal.bounds-dst-at-8
bounds-dst-at-8 c = run_below 0 c.args.dst.now c.args.src.now c.args.at c.args.from 7 c.requires.0 (omega arith)

pub returns : goal.returns
returns c = eight_stores 0 c.args.dst.now c.args.src.now c.args.at c.args.from c.requires.1
