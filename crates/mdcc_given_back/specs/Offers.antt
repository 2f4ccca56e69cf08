-- Votes that offer a choice of a transaction of which they have no mark. No acceptor gives one: a fast vote is a mark of the transaction whose choice it has,
-- and a classic one offers none.
pub use Rattle.mdcc_facts.specs.Adding.{offers_unmarked}
