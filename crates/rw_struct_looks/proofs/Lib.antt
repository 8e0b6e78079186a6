mod Forms
mod Sets
