-- What becomes of a store whose folders are only looked into.
pub use Rattle.fd_stored.specs.Store.{IsLookedAt, IsLookedThrough}
