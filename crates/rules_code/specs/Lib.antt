-- Runs of the code: a public function that ends as its contract says leaves the run's next state; so what is proved of runs is proved of
-- what the code leaves.
pub mod Called
pub mod Functions
pub mod CodeRun
pub mod Isolated
pub mod Rules
pub mod Rejoining
