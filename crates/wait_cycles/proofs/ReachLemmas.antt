-- Marks of what edges lead to.
pub use Rattle.least_set.proofs.MarkLemmas.{member_none, one_fewer, set_mark}
