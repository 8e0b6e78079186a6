pub mod BodiesRead
